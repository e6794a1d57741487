pub mod Numbers
pub mod Inverse
