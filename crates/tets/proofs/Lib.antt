pub mod Tests
pub mod Labelled
