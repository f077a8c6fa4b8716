pub mod Parts
pub mod Sets
pub mod All
pub mod Whole
