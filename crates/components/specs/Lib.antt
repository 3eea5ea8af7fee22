pub mod Answered
pub mod Pair
pub mod Splitting
pub mod Stars
pub mod Bodies
pub mod Tries
