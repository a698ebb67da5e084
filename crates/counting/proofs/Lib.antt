pub mod Parts
pub mod Sides
