pub mod Facets
pub mod between
