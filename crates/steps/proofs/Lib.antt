pub mod Touched
pub mod Follows
pub mod Told
pub mod Worded
pub mod Resume
