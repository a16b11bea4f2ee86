pub mod Demand3
pub mod Kept
pub mod Lawfully
pub mod Refusals
pub mod Steps
