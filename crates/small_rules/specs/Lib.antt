pub mod between
