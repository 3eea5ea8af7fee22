pub mod Parted
pub mod Packing
pub mod Falling
