pub mod Written
pub mod SetUp
