pub mod Walks
pub mod Rounds
