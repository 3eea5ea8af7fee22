pub mod Saying
pub mod Passing
pub mod Narrow
