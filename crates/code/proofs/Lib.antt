pub mod Checks
pub mod Rules
pub mod Passed
