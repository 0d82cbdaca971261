pub mod Kinds
pub mod Rows
pub mod Sheet
pub mod Laws
