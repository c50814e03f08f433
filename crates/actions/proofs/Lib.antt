pub mod Alike
pub mod Composing
