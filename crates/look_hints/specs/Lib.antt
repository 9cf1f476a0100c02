pub mod Planless
pub mod Showing
