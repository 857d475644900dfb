pub mod Digits
pub mod EmptyDays
pub mod FirstLines
pub mod Replies
pub mod OneFault
