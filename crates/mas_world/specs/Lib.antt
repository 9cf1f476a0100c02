pub mod Guards
pub mod Facts
pub mod Acts
pub mod Worlds
pub mod Seen
pub mod inner
