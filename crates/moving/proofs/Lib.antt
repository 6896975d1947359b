pub mod Blocks
pub mod Slots
pub mod Tests
pub mod Behind
pub mod Ways
