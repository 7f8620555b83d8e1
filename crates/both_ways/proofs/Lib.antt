pub mod NoneBefore
pub mod CarriedComputed
pub mod ToldCarried
