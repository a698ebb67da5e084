pub mod Tables
pub mod Cell
pub mod Solid
pub mod OfKind
