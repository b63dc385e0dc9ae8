pub mod Latched
pub mod Examples
