pub mod Tests
pub mod Scans
pub mod Place
pub mod After
pub mod Ways
