pub mod Front
pub mod Executed
pub mod Upwards
pub mod Turns
