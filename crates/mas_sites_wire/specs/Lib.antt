pub mod Wires
pub mod Ends
pub mod Lines
pub mod Lefts
