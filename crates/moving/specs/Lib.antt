pub mod Rows
pub mod Lies
pub mod Down
pub mod Move
