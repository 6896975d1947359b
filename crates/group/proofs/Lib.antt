pub mod Along
pub mod Rows
pub mod Longest
pub mod Defined
pub mod Looking
