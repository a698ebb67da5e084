pub mod Tests
pub mod Sound
pub mod Pairing
