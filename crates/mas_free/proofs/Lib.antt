pub mod Likes
pub mod Senses
pub mod Stages
pub mod Moves
pub mod Settles
pub mod Ends
pub mod Covers
