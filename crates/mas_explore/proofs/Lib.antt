pub mod Members
pub mod Searching
pub mod Times
pub mod Lists
