pub mod Lengths
pub mod OneAnswer
pub mod Verdicts
