pub mod Level
pub mod Lists
pub mod Answers
pub mod Inner
