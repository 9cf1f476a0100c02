pub mod Said
pub mod Exec
pub mod Clear
