pub mod Slices
pub mod Deciding
