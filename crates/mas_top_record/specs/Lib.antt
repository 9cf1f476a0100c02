pub mod Recordings
pub mod Disks
pub mod Keeping
