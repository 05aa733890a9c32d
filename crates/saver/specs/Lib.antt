pub mod Saver
pub mod Answers
