pub mod Path
pub mod Answers
