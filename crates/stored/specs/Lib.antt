pub mod Stored
pub mod Grows
pub mod Whole
pub mod Calls
pub mod Codes
