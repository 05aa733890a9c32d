pub mod Moves
pub mod Mapped
