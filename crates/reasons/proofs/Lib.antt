pub mod First
pub mod Corner
pub mod Filled
pub mod Least
pub mod True
pub mod Listed
pub mod Triples
