pub mod Less
pub mod Walks
pub mod Tries
pub mod Handlers
