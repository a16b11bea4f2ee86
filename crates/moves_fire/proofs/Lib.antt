pub mod laws
mod Turns
