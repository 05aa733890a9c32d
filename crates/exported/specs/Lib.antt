pub mod Settles
pub mod Calls
pub mod Told
