pub mod Steps
pub mod Calls
pub mod Openings
pub mod Lefts
