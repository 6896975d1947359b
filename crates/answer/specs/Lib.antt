pub mod Number
pub mod Refused
pub mod First
