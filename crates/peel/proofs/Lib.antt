pub mod Peel
pub mod Rest
pub mod Theorem
