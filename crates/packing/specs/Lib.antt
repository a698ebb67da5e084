pub mod Packed
pub mod between
