pub mod Covers
pub mod Instances
pub mod Goals
pub mod Items
pub mod Lints
