-- The laws that several proofs cite.
pub mod Planned
pub mod Put
pub mod Grown
pub mod Passed
pub mod Landed
