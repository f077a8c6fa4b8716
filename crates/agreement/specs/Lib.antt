pub mod Covered
pub mod Demand
pub mod Frames
pub mod FrameSums
pub mod Traces
