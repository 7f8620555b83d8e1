pub mod Fitted
pub mod Moves
pub mod NetLines
pub mod Pasts
pub mod Receiving
pub mod Whole
pub mod Wire
