pub mod Lists
pub mod Leaves
pub mod Sets
pub mod Legal
pub mod Emitting
