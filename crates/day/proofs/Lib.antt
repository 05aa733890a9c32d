pub mod Counts
pub mod Days
pub mod Alone
