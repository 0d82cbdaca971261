pub mod Records
pub mod Lines
pub mod Buffers
pub mod Small
pub mod Textures
pub mod TextureCopies
pub mod Parting
