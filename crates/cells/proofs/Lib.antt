pub mod InArrays
pub mod Conditions
pub mod Row
