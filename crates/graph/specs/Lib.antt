pub mod Admission
pub mod Tells
pub mod Marks
pub mod Excluded
pub mod Ends
