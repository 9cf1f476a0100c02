pub mod Artifacts
pub mod Pairs
pub mod Opening
pub mod Texts
pub mod Caused
pub mod Laws
