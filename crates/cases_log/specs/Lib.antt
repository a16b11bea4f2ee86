pub mod Network
pub mod Session
