pub mod Kepts
pub mod Turns
