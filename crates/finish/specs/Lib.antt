pub mod Finish
pub mod Inner
