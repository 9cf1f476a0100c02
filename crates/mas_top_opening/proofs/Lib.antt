pub mod Opened
pub mod Starts
pub mod Able
pub mod Known
