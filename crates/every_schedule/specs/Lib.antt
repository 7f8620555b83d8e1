pub mod KeptClaims
