pub mod Answers
pub mod Numbers
pub mod Accepted
pub mod Loads
pub mod Once
