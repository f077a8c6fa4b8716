pub mod Geometry
pub mod Blocks
