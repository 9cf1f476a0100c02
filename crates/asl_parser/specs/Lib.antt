pub mod Sentences
pub mod Limits
pub mod Holding
pub mod Speaking
pub mod Agents
pub mod Answering
pub mod Laws
