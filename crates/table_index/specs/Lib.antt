pub mod Chain
pub mod Index
pub mod Leads
pub mod Making
pub mod Pair
pub mod Walk
pub mod Walking
