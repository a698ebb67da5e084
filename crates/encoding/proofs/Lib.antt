pub mod Strides
pub mod Numbers
pub mod Signs
pub mod Lengths
pub mod Front
