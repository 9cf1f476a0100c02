pub mod Cycles
pub mod Between
pub mod Rounds
pub mod Laws
