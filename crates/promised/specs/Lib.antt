pub mod Late
pub mod Above
pub mod Breaks
pub mod Promised
