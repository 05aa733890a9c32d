-- What folding computes: Python's integers over ℤ, and the fold of an operator with its operands.
pub mod Python
pub mod Folds
pub mod Inner
