pub mod Bounds
pub mod WholeCopies
pub mod Examples
