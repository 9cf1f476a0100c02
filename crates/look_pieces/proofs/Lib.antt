pub mod Each
pub mod Told
pub mod Bytes
pub mod Lists
pub mod Planless
