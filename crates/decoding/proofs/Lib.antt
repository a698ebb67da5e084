pub mod Fill
pub mod Parts
