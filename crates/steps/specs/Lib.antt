pub mod Code
pub mod Level
pub mod Step
pub mod Resume
pub mod Inner
