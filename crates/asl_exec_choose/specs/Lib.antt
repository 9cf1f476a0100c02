pub mod Choosing
pub mod Numbers
