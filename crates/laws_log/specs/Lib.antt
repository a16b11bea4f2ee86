pub mod Goes
pub mod Holds
