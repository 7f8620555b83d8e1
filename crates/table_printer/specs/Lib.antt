pub mod RowText
pub mod TableText
pub mod TableJson
