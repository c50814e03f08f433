pub mod Bytes
pub mod Kinds
pub mod Replays
pub mod Memory
