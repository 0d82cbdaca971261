pub mod Formats
pub mod WebGpu
pub mod Agreement
