pub mod FittedKeeps
pub mod Flights
pub mod LastOf
pub mod Lists
pub mod MovesKeep
pub mod NetWords
pub mod Pasts
pub mod PutsAndTakes
