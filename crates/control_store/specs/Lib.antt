pub mod RowWord
pub mod Image
pub mod Head
pub mod Compared
