pub mod Refused
pub mod Form
pub mod Escape
pub mod Shown
pub mod Texts
pub mod Minds
