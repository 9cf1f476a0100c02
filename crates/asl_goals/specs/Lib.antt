pub mod Goals
pub mod Sending
pub mod Inside
