pub mod Sections
pub mod Starts
pub mod Along
