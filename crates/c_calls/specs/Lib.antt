pub mod FromC
pub mod FramesFromC
