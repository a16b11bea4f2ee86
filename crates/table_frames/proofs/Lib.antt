mod Coded
pub mod laws
