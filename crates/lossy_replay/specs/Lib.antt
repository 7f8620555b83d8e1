pub mod LossyLines
pub mod LossyTrace
pub mod Linked
pub mod Standing
pub mod StepsTaken
