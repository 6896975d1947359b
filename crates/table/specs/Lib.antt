pub mod View
pub mod Note
pub mod Apart
pub mod Fold
pub mod Scans
pub mod Gather
pub mod Hold
pub mod Sound
