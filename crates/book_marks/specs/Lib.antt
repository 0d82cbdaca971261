pub mod Book
pub mod Update
pub mod Laws
