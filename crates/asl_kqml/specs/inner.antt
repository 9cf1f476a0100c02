pub mod Asks
pub mod Hows
