pub mod Rows
pub mod Sound
pub mod OneRow
pub mod Keys
pub mod Indexed
