pub mod Decide
pub mod Leaves
pub mod Diagrams
pub mod Constructions
pub mod Frames
pub mod Meanings
