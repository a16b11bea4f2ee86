pub mod Number
pub mod Owned
pub mod Pieces
