pub mod Bytes
pub mod Clip
pub mod Equal
pub mod Nearest
pub mod Operation
pub mod Truth
pub mod Word
