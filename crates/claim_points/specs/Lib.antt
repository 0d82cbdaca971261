pub mod Bytes
pub mod Points
