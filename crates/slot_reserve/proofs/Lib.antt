pub mod HeldOfRemote
pub mod HeldAfter
pub mod OneOfEach
pub mod Displaced
pub mod DisplacedOwn
pub mod HeldItems
pub mod AdmissionRoom
mod FirstRequest
