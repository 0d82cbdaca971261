pub mod Limits
pub mod Bounds
pub mod Extents
pub mod Laws
