pub mod Lending
pub mod Lendable
pub mod Refolded
pub mod Left
pub mod Examples
pub mod Origins
pub mod Inner
