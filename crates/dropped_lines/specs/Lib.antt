pub mod Reached
pub mod Dropped
pub mod Stronger
pub mod Runs
pub mod ChipDropped
