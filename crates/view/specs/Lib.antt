pub mod View
pub mod between
