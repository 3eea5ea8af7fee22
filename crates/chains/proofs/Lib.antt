pub mod Lowest
pub mod Linking
pub mod OnChain
