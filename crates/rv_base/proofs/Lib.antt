pub mod Moved
pub mod DecimalText
pub mod Lists
pub mod BeforeComment
pub mod FirstWord
pub mod SameWords
