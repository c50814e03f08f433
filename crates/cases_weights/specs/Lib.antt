pub mod Ports
pub mod Ways
pub mod Masks
pub mod PortWeightsLemmas
