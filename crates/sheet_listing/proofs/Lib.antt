pub mod Pieces
pub mod Left
pub mod Whole
pub mod Parts
