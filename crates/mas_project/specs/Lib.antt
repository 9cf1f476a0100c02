pub mod Lexemes
pub mod Grammar
pub mod Pieces
pub mod Names
pub mod Faults
pub mod Projects
pub mod Laws
pub mod inner
