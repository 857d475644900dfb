pub mod Ranges
pub mod Scan
pub mod Whole
