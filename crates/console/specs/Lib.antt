pub mod AnyHost
pub mod Hexadecimal
pub mod States
