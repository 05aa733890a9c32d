pub mod Answers
pub mod Pushes
