pub mod Promised
pub mod Filled
