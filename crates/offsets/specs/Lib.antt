pub mod Offsets
pub mod Inner
