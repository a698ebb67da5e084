pub mod File
pub mod between
