pub mod Cuts
pub mod Firsts
pub mod Folds
pub mod Spread
