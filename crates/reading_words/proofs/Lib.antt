pub mod Faults
pub mod Names
