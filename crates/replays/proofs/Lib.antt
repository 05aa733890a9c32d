pub mod Stretch
pub mod Exported
