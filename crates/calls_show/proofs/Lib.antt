pub mod laws
mod Lines
mod Turns
