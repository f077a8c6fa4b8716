-- The numbers that the papers give to refusals and servers.
pub mod Numbers
