pub mod Machine
pub mod More
pub mod Raising
pub mod Exposed
pub mod Frames
pub mod Plain
pub mod Lists
pub mod Examples
