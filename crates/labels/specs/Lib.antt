pub mod Label
pub mod Answered
pub mod Labels
pub mod Planting
