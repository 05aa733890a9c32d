pub mod Sweeps
pub mod Routes
pub mod Least
