pub mod Rule
pub mod Hands
pub mod Turns
pub mod Looks
pub mod Racks
