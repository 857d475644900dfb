pub mod First
pub mod Counts
pub mod Adding
