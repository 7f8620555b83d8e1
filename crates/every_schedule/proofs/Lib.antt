pub mod PlayedStates
pub mod KeptClaims
pub mod LinesCome
