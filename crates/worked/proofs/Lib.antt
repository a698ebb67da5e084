pub mod Asked
pub mod Lists
pub mod Opened
pub mod Worked
