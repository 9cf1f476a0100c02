pub mod Calls
pub mod Base
pub mod GivenPairs
pub mod Marks
pub mod Listed
pub mod Solves
pub mod inner
