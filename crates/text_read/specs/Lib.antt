pub mod Entry
pub mod Header
pub mod Line
