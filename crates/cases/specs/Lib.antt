pub mod Cases
pub mod Claim
pub mod Script
pub mod Step
pub mod Traced
