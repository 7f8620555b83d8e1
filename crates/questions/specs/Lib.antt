pub mod Answers
pub mod Reading
pub mod Adding
pub mod Known
pub mod Reads
pub mod AllAsked
pub mod ReadsQuestions
pub mod WorkedLock
