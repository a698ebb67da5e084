pub mod Prune
pub mod Joined
pub mod Leaves
pub mod Above
pub mod Rows
pub mod Ahead
