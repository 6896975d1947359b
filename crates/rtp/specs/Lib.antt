pub mod Bytes
pub mod Rtp
pub mod Fec
pub mod Length
pub mod Faults
