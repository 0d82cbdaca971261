pub mod Arms
pub mod Every
pub mod Order
pub mod Stages
