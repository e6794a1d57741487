pub mod Choice
pub mod Parts
