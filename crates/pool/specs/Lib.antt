-- The constant pool: what a constant is as an operand, and where a result goes.
pub mod Pool
pub mod Inner
