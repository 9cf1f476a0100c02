pub mod Growths
pub mod Hungers
