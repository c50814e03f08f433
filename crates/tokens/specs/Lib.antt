pub mod Lexing
pub mod Symbols
