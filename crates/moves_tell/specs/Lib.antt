pub mod Before
pub mod Brought
pub mod Pairs
pub mod Telling
pub mod Told
pub mod Taped
