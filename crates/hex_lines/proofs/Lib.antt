pub mod Pairs
pub mod Lines
pub mod Examples
