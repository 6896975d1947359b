pub mod Content
pub mod Down
pub mod Passed
pub mod Rest
pub mod Standing
