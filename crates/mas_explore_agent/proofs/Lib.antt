pub mod Plain
pub mod Sames
