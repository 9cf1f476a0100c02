pub mod Lines
pub mod Outs
pub mod Pieces
pub mod Falls
pub mod Differences
pub mod Changes
