pub mod Marks
pub mod between
