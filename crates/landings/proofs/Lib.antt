pub mod Filled
pub mod Asked
pub mod Kept
