pub mod Kinds
pub mod TableWords
pub mod Rows
pub mod Emits
pub mod Checking
pub mod Scans
pub mod Forwards
