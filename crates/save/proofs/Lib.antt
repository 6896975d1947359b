pub mod Lay
pub mod Sum
pub mod Writes
