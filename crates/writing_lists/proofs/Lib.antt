pub mod Sizes
pub mod Lengths
