pub mod Fetched
pub mod Fetching
