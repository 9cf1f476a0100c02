pub mod Plain
pub mod Same
pub mod inner
