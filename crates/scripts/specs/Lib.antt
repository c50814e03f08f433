pub mod Forwards
pub mod Heard
pub mod Lines
pub mod Numbers
pub mod Scripts
pub mod Words
