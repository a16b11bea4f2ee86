pub mod Form
pub mod Kind
pub mod Placed
pub mod StartsTo
pub mod Walked
