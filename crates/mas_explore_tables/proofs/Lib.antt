pub mod Entering
pub mod Links
pub mod Items
