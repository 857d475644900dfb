pub mod Places
pub mod Fault
pub mod Ends
