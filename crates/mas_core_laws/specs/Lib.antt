pub mod Mail
pub mod Lead
pub mod Quiet
pub mod Ends
