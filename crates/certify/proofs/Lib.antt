pub mod Answering
pub mod Outcomes
pub mod Demands
