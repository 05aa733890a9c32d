-- The machine that a chunk runs on, and what strict folding keeps of its runs.
pub mod Machine
pub mod Rule
pub mod Kept
pub mod Inner
