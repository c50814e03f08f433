pub mod Texts
pub mod Known
pub mod Printing
