pub mod Around
pub mod Places
pub mod Rows
pub mod Once
