pub mod Plans
pub mod Stacks
pub mod Agendas
