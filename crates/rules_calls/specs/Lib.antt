pub mod Answer
pub mod Calls
pub mod Compact
pub mod Exports
pub mod Public
pub mod Refusals
pub mod Run
