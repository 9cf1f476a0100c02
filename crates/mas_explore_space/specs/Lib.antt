pub mod Held
pub mod Rows
pub mod Settling
pub mod Met
pub mod Texts
pub mod Spaces
