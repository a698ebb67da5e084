pub mod Front
pub mod between
