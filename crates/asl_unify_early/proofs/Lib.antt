pub mod Refused
pub mod Apart
pub mod Arithmetic
pub mod Stays
pub mod Telling
pub mod Settling
