pub mod Unused
pub mod Inner
