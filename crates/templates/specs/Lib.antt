pub mod Kinds
pub mod Tables
pub mod between
