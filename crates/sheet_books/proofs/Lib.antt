pub mod Lines
pub mod Slots
pub mod Created
