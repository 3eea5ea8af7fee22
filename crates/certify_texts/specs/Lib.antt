pub mod Says
pub mod Packed
