pub mod Reserve
pub mod Admission
pub mod Requests
