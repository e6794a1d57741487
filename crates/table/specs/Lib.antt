pub mod Layout
pub mod Table
pub mod Jobs
pub mod Applies
pub mod Examples
