pub mod Faults
pub mod Projects
pub mod Known
pub mod Files
pub mod Sources
pub mod Laws
