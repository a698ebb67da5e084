pub mod Undone
pub mod Kept
