pub mod Bytes
pub mod Equal
pub mod Examples
pub mod Nearest
pub mod Operation
pub mod Sets
pub mod Truth
pub mod Word
