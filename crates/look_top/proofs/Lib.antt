pub mod Caused
pub mod Inputs
pub mod Outputs
pub mod Claps
pub mod Numerals
