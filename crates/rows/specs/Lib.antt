pub mod Route
pub mod Inner
