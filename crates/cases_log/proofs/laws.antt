pub mod Done
pub mod Exhibits
pub mod Session
