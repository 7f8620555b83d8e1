pub mod TakenRuns
pub mod WiresAfter
pub mod MovesTold
pub mod Frames
pub mod LinkedWires
