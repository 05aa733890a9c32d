pub mod Answers
pub mod Generator
pub mod Inner
