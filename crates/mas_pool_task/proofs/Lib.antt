pub mod Goings
pub mod Sends
