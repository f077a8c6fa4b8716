pub mod Told
pub mod Frames
