pub mod Asked
pub mod RunMade
pub mod TapedIf
