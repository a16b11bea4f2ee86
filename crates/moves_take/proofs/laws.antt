pub mod Known
pub mod Sized
pub mod Together
