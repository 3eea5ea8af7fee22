pub mod Lowest
pub mod Alike
pub mod Tries
pub mod Verdict
pub mod Answered
