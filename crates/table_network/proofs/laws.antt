pub mod Alike
pub mod Counted
pub mod Known
pub mod Parts
pub mod Priorities
pub mod Rules
pub mod Shared
pub mod Windows
