pub mod Progress
pub mod Output
