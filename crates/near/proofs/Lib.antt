pub mod Near
pub mod Sweeps
