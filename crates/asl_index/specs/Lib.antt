pub mod Store
pub mod Noted
pub mod Rules
pub mod Hits
pub mod Packing
