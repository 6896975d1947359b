pub mod Product
pub mod Turn
