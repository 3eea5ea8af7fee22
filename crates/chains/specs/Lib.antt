pub mod Chains
pub mod Parts
