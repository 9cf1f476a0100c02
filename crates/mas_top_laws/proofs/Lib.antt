pub mod Good
pub mod Meant
pub mod Clauses
pub mod Sets
pub mod Worlds
pub mod Turns
pub mod Openings
pub mod Yes
