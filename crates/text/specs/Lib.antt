pub mod Column
pub mod Plan
pub mod Verdict
pub mod Lines
