-- The laws that several proofs cite.
pub mod Words
pub mod Store
pub mod Nan
