pub mod Table
pub mod Edges
pub mod between
