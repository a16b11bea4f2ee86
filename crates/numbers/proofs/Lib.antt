pub mod laws
pub mod Signs
pub mod Quotient
pub mod Runs
