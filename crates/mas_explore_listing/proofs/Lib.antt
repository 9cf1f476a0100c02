pub mod Answered
pub mod Entries
pub mod Moved
