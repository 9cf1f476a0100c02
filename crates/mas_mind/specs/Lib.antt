pub mod Limits
pub mod Minds
pub mod Thoughts
