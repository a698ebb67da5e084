pub mod Portions
pub mod Run
pub mod between
