pub mod Answers
pub mod Groups
pub mod Inner
