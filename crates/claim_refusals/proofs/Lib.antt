pub mod Boxes
pub mod Ends
pub mod Levels
pub mod Second
