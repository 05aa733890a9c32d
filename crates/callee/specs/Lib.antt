pub mod Answers
pub mod Trace
