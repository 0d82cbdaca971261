pub mod Formats
pub mod Regions
pub mod Asking
pub mod Copy
pub mod Ranges
pub mod Demand3
pub mod Empty
