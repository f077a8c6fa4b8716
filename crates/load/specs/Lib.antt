pub mod Told
pub mod Ring
pub mod Passes
