pub mod Agents
pub mod Tokens
pub mod Spelled
pub mod Brackets
pub mod Means
pub mod Laws
