pub mod Stacked
pub mod Numbered
pub mod Owned
