pub mod Operands
pub mod Growth
pub mod Verdicts
pub mod Determinism
pub mod Policies
