pub mod Along
pub mod Held
pub mod Tried
