pub mod Copy
pub mod Plan
pub mod Stages
pub mod Laws
