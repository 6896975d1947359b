pub mod Lay
pub mod Ways
