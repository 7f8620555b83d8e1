pub mod LexemeLines
pub mod Front
pub mod Reading
pub mod Cursor
pub mod Reads
pub mod Answer
