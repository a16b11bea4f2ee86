pub mod Plenty
