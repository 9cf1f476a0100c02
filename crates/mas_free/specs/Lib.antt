pub mod Lines
pub mod Alike
pub mod Outcome
pub mod Free
pub mod Forgets
pub mod Covers
pub mod inner
