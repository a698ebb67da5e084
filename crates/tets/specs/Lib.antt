pub mod Tets
