pub mod Leaping
