pub mod Lists
pub mod Wrap
pub mod Line
