pub mod Lists
pub mod Progress
pub mod Outcomes
