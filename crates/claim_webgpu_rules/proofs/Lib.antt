pub mod Rows
pub mod Sizes
pub mod TextureRanges
pub mod Linears
pub mod BufferCopies
pub mod Compatible
pub mod Subresources
