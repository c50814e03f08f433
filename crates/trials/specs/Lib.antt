pub mod Ready
pub mod Records
pub mod Trials
