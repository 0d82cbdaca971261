pub mod Named
pub mod Placed
