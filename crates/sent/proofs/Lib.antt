pub mod Lives
pub mod Room
pub mod Theorem
pub mod Written
