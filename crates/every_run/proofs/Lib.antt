pub mod ToldLeads
pub mod GoesOn
pub mod NeverStops
