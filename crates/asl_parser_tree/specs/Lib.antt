pub mod Lexemes
pub mod Meanings
pub mod Limits
pub mod Operands
pub mod Plain
pub mod Conjuncts
pub mod Holding
pub mod Leaves
