pub mod Saved
pub mod Exported
