pub mod laws
mod Reading
mod Walking
mod Printing
