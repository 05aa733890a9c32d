pub mod Sets
pub mod Words
pub mod Nums
