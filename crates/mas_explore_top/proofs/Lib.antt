pub mod Asks
pub mod Caused
pub mod Claps
pub mod Explored
pub mod Options
pub mod Started
