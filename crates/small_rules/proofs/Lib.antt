pub mod Trial
pub mod Quads
