pub mod Examples
pub mod Turns
pub mod Data
pub mod Claims
