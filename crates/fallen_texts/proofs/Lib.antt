pub mod Listing
pub mod Answering
pub mod Enough
