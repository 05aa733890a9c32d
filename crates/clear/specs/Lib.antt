pub mod Clear
pub mod Inner
