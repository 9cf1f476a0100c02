pub mod Filling
pub mod Puts
