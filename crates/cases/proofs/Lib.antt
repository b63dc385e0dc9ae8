pub mod Fnv
pub mod Taking
