pub mod Refusals
pub mod File
pub mod Ending
pub mod Demands
