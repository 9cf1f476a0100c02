pub mod Disk
pub mod Calls
pub mod PastDisk
