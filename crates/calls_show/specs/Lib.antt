pub mod Charted
pub mod Said
