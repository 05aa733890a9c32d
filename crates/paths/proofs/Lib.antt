pub mod Marks
pub mod Depth
pub mod Turns
pub mod Loop
pub mod Between
