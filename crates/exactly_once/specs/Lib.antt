pub mod Turned
pub mod Once
pub mod between
