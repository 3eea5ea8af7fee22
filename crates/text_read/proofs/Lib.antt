pub mod Columns
pub mod Edges
pub mod Headers
pub mod Lines
pub mod Result
