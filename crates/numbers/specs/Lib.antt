pub mod Tables
pub mod Answered
pub mod Parts
pub mod Standing
