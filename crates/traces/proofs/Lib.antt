pub mod ShortRuns
pub mod Writing
pub mod Load
