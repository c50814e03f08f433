pub mod Waiting
pub mod Checking
pub mod Flags
pub mod Checked
