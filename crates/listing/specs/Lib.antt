pub mod Script
pub mod Listing
pub mod Answered
