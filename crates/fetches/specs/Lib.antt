pub mod Fetched
pub mod Told
