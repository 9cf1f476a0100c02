pub mod Telling
pub mod Names
pub mod Clauses
pub mod Goals
pub mod Printing
