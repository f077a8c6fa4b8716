pub mod Words
pub mod Sizes
pub mod Few
pub mod Home
pub mod Levels
