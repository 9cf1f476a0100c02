pub mod Sharers
pub mod Dealing
pub mod Rounds
