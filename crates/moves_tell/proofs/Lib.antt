pub mod laws
mod Telling
