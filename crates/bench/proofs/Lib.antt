pub mod Stepping
pub mod InForce
pub mod Forwarding
pub mod Opening
pub mod Texts
