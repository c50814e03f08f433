pub mod Shows
pub mod Lines
