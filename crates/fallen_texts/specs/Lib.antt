pub mod Falls
pub mod Listing
