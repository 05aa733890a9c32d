-- The theorem, and what it is made of.
pub mod Lock
pub mod Pack
pub mod Good
pub mod Pool
pub mod Told
pub mod Alike
pub mod Step
pub mod Pass
pub mod Left
pub mod Same
pub mod Cut
pub mod Call
pub mod Cleared
pub mod Examples
