pub mod Check
pub mod Ins
pub mod Rules
pub mod Inner
