pub mod Reply
pub mod Done
