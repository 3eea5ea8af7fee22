pub mod Laws
pub mod Reading
pub mod Writing
pub mod Digits
pub mod RoundTrip
pub mod Example
