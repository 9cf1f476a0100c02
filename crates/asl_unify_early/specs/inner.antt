pub mod Clashes
pub mod Numbers
pub mod Plain
pub mod Heads
