pub mod Blocks
pub mod Standard
pub mod Regions
pub mod Effects
pub mod Mixed
