pub mod ArrayLines
pub mod ArrayTrace
pub mod ArrayRuns
pub mod Standing
