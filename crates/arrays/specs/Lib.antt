pub mod Refusals
pub mod between
