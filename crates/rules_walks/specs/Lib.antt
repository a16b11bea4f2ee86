pub mod All
pub mod Choose
pub mod Count
pub mod First
pub mod Held
pub mod Pick
pub mod Tally
pub mod Walk
