pub mod Once
pub mod Outcomes
pub mod Cut
pub mod Lengths
pub mod ShortTexts
pub mod KnownBytes
