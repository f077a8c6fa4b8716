pub mod Told
pub mod Passed
pub mod Front
