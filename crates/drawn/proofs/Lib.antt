pub mod Lengths
pub mod Letters
pub mod Lines
pub mod Edges
pub mod Stores
pub mod Reading
pub mod Result
