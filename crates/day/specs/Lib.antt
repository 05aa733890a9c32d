pub mod Count
pub mod Day
pub mod Answers
pub mod Inner
