mod Turns
mod Showing
mod Tracing
