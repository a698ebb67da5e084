pub mod Sharing
pub mod between
