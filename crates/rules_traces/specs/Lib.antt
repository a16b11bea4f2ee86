pub mod Entry
pub mod Gather
pub mod Kinds
pub mod Public
pub mod Reader
pub mod Run
pub mod Trace
pub mod Traceable
