pub mod Grow
pub mod OneKind
pub mod Full
pub mod Next
