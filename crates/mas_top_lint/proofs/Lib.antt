pub mod Linted
