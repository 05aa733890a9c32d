pub mod Chunk
pub mod Tables
pub mod Check
pub mod Inner
