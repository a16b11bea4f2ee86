pub mod Due
pub mod Found
pub mod Running
pub mod Small
