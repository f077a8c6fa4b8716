pub mod Upwards
pub mod Single
