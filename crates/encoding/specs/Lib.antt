pub mod Headers
pub mod Sessions
pub mod Outcomes
pub mod Buffers
pub mod Values
