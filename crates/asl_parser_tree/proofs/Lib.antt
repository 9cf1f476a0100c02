pub mod Numbering
pub mod Sized
pub mod Options
pub mod Past
pub mod Keeping
pub mod PartsKept
