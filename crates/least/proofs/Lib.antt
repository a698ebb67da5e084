pub mod Turns
pub mod OneLeast
