pub mod Agreed
pub mod Calls
pub mod Checked
pub mod Compact
pub mod Due
pub mod Examples
pub mod Public
pub mod Run
