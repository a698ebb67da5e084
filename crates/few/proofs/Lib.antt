pub mod Sums
pub mod Triples
pub mod Few
pub mod Labelled
