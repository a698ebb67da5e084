pub mod Found
pub mod Nearby
