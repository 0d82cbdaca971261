pub mod Accepted
pub mod Asks
pub mod States
pub mod Same
pub mod Claims
pub mod Ranges
