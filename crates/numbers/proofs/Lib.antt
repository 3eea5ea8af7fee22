pub mod Lengths
pub mod Numbering
pub mod Steps
pub mod Overs
pub mod Marking
pub mod Lasts
pub mod Lowers
pub mod Serving
