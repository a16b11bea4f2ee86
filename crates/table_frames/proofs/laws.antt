pub mod Form
pub mod Kind
pub mod Placed
pub mod Ranges
pub mod Walked
