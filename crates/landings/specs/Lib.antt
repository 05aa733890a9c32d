pub mod Landings
pub mod Latest
pub mod Inner
