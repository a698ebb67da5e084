pub mod Tables
pub mod Scanning
pub mod Skipping
