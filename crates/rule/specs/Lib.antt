pub mod Rule
pub mod between
