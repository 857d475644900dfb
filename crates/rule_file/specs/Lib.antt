pub mod Records
pub mod Files
pub mod Loading
pub mod Writing
pub mod Accepted
