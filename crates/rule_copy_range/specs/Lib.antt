pub mod Range
pub mod Laws
pub mod Inside
