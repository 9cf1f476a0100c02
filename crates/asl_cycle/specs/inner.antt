pub mod Choosing
pub mod Acting
pub mod Posting
pub mod Replying
pub mod Thoughts
pub mod Loud
pub mod Still
pub mod Laws
