mod Onto
pub mod Saying
