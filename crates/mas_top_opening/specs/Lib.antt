pub mod Opening
pub mod Fits
