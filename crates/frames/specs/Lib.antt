pub mod Told
pub mod Done
