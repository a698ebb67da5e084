pub mod Readers
pub mod Spots
pub mod Rests
pub mod Printing
pub mod Undoes
pub mod Kept
