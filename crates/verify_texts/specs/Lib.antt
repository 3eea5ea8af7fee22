pub mod Texts
pub mod Table
pub mod Board
