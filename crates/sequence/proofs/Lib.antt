pub mod Chains
pub mod Line
pub mod Lists
pub mod Wrap
