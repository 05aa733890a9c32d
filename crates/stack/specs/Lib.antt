pub mod Answers
pub mod Stack
pub mod Inner
