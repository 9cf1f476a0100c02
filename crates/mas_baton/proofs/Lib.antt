pub mod Exchanges
pub mod Openings
pub mod Closings
pub mod Sends
