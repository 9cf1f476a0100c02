pub mod Tables
pub mod States
pub mod Opening
pub mod Kinds
