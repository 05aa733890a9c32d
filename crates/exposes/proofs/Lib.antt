pub mod Exposing
