pub mod Sums
pub mod Call
pub mod Ready
pub mod Absorbed
