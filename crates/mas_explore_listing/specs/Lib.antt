pub mod Questions
pub mod Text
pub mod Told
