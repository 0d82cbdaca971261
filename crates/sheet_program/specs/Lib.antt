pub mod Books
pub mod Program
