mod Guards
mod Turns
