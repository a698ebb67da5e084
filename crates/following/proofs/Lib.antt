pub mod InTurn
pub mod Left
