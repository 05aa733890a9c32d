pub mod Rooms
pub mod There
