pub mod laws
mod Turns
mod Written
