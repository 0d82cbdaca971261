pub mod Bounded
pub mod Checked
