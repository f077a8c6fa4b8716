pub mod Few
pub mod Listed
pub mod Filled
pub mod Replaced
