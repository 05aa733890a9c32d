pub mod Late
pub mod Breaks
pub mod Promised
pub mod Written
