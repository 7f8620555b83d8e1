pub mod Ready
pub mod Drive
pub mod SummaryText
pub mod Forms
pub mod Counted
pub mod Turns
pub mod Changes
pub mod Rows
