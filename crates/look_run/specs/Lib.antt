pub mod Steps
pub mod Views
pub mod Looks
pub mod Falling
pub mod Before
