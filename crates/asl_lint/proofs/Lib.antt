pub mod Needing
pub mod Becoming
pub mod Finding
pub mod Verdicts
