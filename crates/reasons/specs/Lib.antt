pub mod First
pub mod Reason
pub mod True
pub mod Numbers
