-- The laws that several proofs cite, and the theorems on the definitions.
pub mod Division
pub mod Digits
pub mod Complement
pub mod Word
pub mod Order
