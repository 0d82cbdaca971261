pub mod Absent
pub mod Padding
