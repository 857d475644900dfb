pub mod Slicing
pub mod Endings
pub mod Loads
