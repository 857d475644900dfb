pub mod Laid
pub mod Adding
