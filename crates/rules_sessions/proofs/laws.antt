pub mod Digits
pub mod Examples
pub mod Fits
pub mod RunLines
pub mod Session
pub mod Text
