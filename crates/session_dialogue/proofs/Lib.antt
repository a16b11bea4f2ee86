pub mod laws
mod Buffers
mod Telling
mod Taking
