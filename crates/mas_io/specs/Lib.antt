pub mod Causes
pub mod Shelf
pub mod Sink
pub mod Told
pub mod Writing
pub mod Calls
pub mod Memory
