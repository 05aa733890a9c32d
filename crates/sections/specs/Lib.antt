pub mod Answers
pub mod Returns
pub mod There
