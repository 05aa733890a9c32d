pub mod Remap
pub mod Moved
pub mod Inner
