pub mod Lists
pub mod Laid
pub mod Refusals
pub mod between
