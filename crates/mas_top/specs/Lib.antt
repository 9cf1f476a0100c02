pub mod Ways
pub mod Runs
pub mod Caused
pub mod Demo
pub mod Recording
pub mod Headline
pub mod Playing
pub mod Laws
