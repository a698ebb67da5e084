pub mod Near
pub mod Det
pub mod Turned
