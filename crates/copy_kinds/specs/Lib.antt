pub mod Ranges
pub mod Planned
