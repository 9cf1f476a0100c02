pub mod Circumstance
pub mod Sought
pub mod Emptied
pub mod Contents
