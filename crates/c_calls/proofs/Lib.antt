pub mod Along
pub mod Frames
pub mod Told
