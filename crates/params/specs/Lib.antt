pub mod Answers
pub mod Masks
