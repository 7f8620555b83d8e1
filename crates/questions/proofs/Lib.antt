pub mod RemoteByRemote
pub mod CondsSoFar
pub mod StatesSoFar
pub mod AskedSets
pub mod AskingEnds
