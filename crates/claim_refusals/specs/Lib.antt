pub mod Ends
pub mod Levels
pub mod Second
