pub mod First
pub mod Filter
pub mod Likes
pub mod Trying
pub mod Answers
pub mod Serving
pub mod Handing
pub mod Surveying
