pub mod Standing
pub mod Moves
pub mod Keys
pub mod Arriving
pub mod Effects
pub mod Planned
pub mod StepText
