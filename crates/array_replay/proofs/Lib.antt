pub mod ArrayWords
pub mod MeantLines
pub mod ToldInLine
pub mod LinesOfRuns
