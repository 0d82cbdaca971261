pub mod Accepted
pub mod Asks
pub mod Claims
