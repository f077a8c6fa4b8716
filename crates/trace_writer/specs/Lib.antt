pub mod Told
pub mod Encoding
