pub mod Linear
pub mod Stages
pub mod Laws
