pub mod Group
pub mod Peel
pub mod Rest
