pub mod Table
pub mod Aspects
pub mod Laws
