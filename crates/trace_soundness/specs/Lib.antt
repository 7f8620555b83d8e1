pub mod ShownLines
pub mod Passing
