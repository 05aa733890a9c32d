pub mod Answers
pub mod Shape
