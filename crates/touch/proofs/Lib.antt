pub mod Sets
pub mod Cases
pub mod Trapped
pub mod Written
