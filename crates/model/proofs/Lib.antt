pub mod Worked
pub mod Offsets
pub mod Emptied
pub mod Erased
