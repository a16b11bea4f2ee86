pub mod Due
pub mod Small
