pub mod Fold
pub mod Inner
