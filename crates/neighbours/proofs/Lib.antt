pub mod Rows
pub mod Growing
pub mod Law
pub mod Tets
pub mod Whole
pub mod Reading
pub mod Edges
