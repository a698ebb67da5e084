pub mod Cells
pub mod Full
pub mod between
