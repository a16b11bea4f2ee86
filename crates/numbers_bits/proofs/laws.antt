pub mod Bit
pub mod Marked
