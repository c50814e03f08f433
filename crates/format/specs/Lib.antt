pub mod Fields
pub mod Limits
pub mod Words
pub mod Policy
pub mod PolicyKinds
pub mod PolicyWords
pub mod Actions
