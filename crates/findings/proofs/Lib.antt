pub mod Found
pub mod Entries
