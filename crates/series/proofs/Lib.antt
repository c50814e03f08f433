pub mod Closing
pub mod Going
pub mod Judging
pub mod Single
