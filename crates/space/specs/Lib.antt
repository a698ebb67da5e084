pub mod Box
pub mod Mesh
pub mod Arrays
pub mod between
