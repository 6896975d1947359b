pub mod Annexes
pub mod ArrangementLaws
pub mod Exact
pub mod Limits
pub mod Numbers
pub mod Place
