pub mod Entries
pub mod Fresh
pub mod Right
pub mod Following
