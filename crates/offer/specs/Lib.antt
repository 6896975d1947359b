pub mod Rows
pub mod Offer
