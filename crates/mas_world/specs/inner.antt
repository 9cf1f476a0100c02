pub mod Artifacts
pub mod Sights
