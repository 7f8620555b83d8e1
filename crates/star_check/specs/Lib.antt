pub mod Numbering
pub mod Scopes
pub mod Passes
pub mod Tells
