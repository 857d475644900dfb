pub mod OneCall
pub mod Evaluating
pub mod Lists
pub mod Safety
pub mod Worked
