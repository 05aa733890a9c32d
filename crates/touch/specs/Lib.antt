pub mod Touch
pub mod Traps
pub mod Inner
