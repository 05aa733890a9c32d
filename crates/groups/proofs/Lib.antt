pub mod Groups
pub mod Calls
