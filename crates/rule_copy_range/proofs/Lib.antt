pub mod Rules
pub mod Accepted
pub mod Inside
pub mod Overruns
