pub mod Writing
pub mod Lent
pub mod Reading
pub mod Seen
