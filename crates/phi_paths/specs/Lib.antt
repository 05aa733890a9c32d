pub mod Read
pub mod Inner
