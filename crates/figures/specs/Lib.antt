pub mod Figures
pub mod Answers
pub mod Month
