pub mod Length
pub mod Drawing
pub mod Text
pub mod Entry
pub mod Line
