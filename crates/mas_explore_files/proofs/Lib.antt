pub mod Texts
pub mod Ready
