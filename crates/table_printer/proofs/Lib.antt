pub mod AsciiNames
pub mod NoFloat
