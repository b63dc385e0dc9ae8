pub mod Spelled
pub mod Backs
