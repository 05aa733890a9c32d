pub mod Alone
pub mod Answered
