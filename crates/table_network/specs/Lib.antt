pub mod Class
pub mod Counted
pub mod Keys
pub mod Known
pub mod Windows
