pub mod Contents
pub mod Receive
pub mod Laws
pub mod inner
