pub mod Ends
pub mod Closings
pub mod Whole
pub mod Dealings
pub mod Beside
pub mod Cuttings
pub mod Runs
