pub mod Turns
pub mod Follows
pub mod Answers
pub mod Views
pub mod Steps
pub mod Rule
pub mod Cycles
