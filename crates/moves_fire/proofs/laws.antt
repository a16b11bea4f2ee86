pub mod Carrying
pub mod Copies
