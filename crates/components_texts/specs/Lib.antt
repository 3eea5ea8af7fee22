pub mod Groups
pub mod Export
pub mod Pairs
