pub mod Told
pub mod Digits
