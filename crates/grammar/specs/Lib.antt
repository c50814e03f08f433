pub mod Sentences
pub mod Trees
pub mod Outlines
pub mod Reading
pub mod Standing
