pub mod Last
pub mod Asked
