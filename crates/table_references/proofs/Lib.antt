pub mod laws
mod Coded
mod Owned
