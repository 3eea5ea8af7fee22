pub mod Numbers
pub mod TwoTexts
pub mod Stored
pub mod Longer
