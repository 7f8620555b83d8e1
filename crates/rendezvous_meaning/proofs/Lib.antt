pub mod Taken
pub mod States
pub mod BrokenClaims
