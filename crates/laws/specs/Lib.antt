pub mod All
pub mod Each
pub mod Mask
pub mod Page
pub mod Some
pub mod Table
pub mod Walk
