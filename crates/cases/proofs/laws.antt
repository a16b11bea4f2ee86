pub mod Claim
pub mod Step
pub mod Traced
