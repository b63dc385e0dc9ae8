pub mod Fnv
pub mod Reads
