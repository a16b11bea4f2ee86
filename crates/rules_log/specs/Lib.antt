pub mod Log
pub mod Origin
pub mod Sequence
pub mod Timer
