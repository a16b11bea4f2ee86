pub mod Demand3
pub mod Kept
pub mod Lawfully
pub mod NextDue
pub mod Refusals
pub mod Steps
pub mod Timers
pub mod Untrue
