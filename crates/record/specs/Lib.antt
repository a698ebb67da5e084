pub mod Entries
pub mod Marks
pub mod between
