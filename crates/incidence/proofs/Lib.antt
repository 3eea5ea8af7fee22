pub mod Groups
pub mod Front
pub mod Loops
pub mod Placing
pub mod Filled
pub mod Steps
pub mod Passes
pub mod BothWays
