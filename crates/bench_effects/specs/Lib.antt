pub mod Lent
pub mod Acts
