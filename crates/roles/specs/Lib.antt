pub mod Kinds
pub mod Roles
pub mod Sets
pub mod Inner
