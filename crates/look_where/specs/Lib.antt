pub mod Others
pub mod Files
pub mod Showing
