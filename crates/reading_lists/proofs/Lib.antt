pub mod Bounds
pub mod Pieces
pub mod Worked
pub mod Names
