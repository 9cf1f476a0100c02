pub mod Numbered
pub mod Sections
pub mod Shown
pub mod Backs
pub mod Judged
