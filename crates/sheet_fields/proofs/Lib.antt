pub mod Scans
pub mod LineLaws
pub mod Fits
