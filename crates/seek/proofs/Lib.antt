pub mod Within
pub mod Loop
