pub mod Blocks
pub mod Keeping
pub mod Loading
