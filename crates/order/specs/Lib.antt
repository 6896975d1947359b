pub mod Rows
pub mod Stands
