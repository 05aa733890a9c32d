pub mod Machine
pub mod Raising
pub mod Exposed
pub mod Bodies
pub mod Inner
