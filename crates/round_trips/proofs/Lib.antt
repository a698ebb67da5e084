pub mod Numbers
pub mod Bytes
pub mod Reading
pub mod Writing
pub mod Laws
