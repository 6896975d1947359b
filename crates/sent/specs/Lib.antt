pub mod Sums
pub mod Kept
pub mod Room
pub mod Written
pub mod Life
pub mod Lives
pub mod Theorem
