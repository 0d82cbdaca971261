pub mod Marks
pub mod Updates
pub mod Queries
