pub mod Codes
pub mod Field
pub mod Line
pub mod Laws
