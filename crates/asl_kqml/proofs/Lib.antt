pub mod Found
pub mod Grounds
pub mod Unasked
pub mod Walks
pub mod TextLists
pub mod Learning
