pub mod Arrangement
pub mod Schedule
pub mod Exact
pub mod Place
pub mod Numbers
pub mod Limits
pub mod Annexes
