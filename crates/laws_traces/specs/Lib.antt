pub mod Calls
pub mod Each
pub mod Fits
pub mod Same
pub mod Shows
pub mod Wide
