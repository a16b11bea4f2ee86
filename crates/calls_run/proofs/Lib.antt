pub mod laws
mod Asked
mod Tracing
mod Turns
mod Going
