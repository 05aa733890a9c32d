-- One attempt to fold, and the pass over a chunk.
pub mod Plan
pub mod Pass
pub mod Inner
