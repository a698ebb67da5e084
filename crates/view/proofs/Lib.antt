pub mod Says
pub mod Held
pub mod Shown
