pub mod Laws
pub mod Regions
