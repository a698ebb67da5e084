pub mod Stamps
pub mod Vertices
