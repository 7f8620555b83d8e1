pub mod Standing
pub mod Stepped
pub mod Claims
pub mod GivenMessage
