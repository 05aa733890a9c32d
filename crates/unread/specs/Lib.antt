pub mod Answers
pub mod Phi
