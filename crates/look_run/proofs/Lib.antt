pub mod Going
pub mod Looking
pub mod Fallen
pub mod Walking
pub mod Reported
