pub mod Charted
pub mod Shown
