pub mod Seen
pub mod Due
pub mod Into
