pub mod Growths
pub mod Watchers
pub mod Untold
