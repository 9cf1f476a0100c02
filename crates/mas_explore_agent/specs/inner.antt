pub mod Texts
pub mod Still
pub mod Likes
