pub mod Form
pub mod between
