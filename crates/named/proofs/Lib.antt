pub mod Marking
pub mod Recoding
