pub mod Bodies
pub mod Calls
pub mod Month
