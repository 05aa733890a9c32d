pub mod Answers
pub mod Loops
pub mod Inner
