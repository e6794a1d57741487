pub mod Endings
pub mod Script
pub mod Playing
pub mod Whole
pub mod Length
pub mod Answered
