pub mod Steps
pub mod SharedRounds
pub mod Dealings
pub mod Ways
mod Sends
