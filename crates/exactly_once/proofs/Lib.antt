pub mod Turned
pub mod Mirror
pub mod Grow
pub mod Once
pub mod Search
