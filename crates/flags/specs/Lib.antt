pub mod BufferUsages
pub mod TextureUsages
pub mod FormatAspects
pub mod Flags
