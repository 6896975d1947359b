pub mod Agree
pub mod Scattered
pub mod Look
pub mod Turns
pub mod Ways
pub mod Seen
