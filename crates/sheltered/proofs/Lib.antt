pub mod Ahead
pub mod Exported
pub mod Bodies
pub mod Saving
