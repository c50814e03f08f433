pub mod Requests
pub mod Rules
pub mod Claims
pub mod Again
