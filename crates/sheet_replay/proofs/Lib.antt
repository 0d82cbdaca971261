pub mod Bytes
pub mod Items
pub mod Lists
pub mod Prints
