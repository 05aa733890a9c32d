pub mod Asked
pub mod Inner
