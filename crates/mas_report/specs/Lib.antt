pub mod Limits
pub mod Report
pub mod Reading
pub mod inner
