pub mod Changes
pub mod Entry
pub mod Examples
pub mod Gather
pub mod Passed
pub mod Taken
pub mod Traceable
