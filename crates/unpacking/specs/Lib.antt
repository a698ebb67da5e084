pub mod Unpacked
pub mod between
