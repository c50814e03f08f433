pub mod Weights
pub mod Kinds
pub mod Order
