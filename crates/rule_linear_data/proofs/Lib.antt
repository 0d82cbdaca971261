pub mod Sums
pub mod Rules
pub mod Accepted
pub mod Staged
