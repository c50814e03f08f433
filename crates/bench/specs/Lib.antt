pub mod Sizes
pub mod Views
pub mod Replies
pub mod Texts
pub mod Reading
pub mod Installs
