pub mod Placing
pub mod Reading
pub mod Formats
pub mod Writing
pub mod Claims
pub mod Sized
pub mod Settling
pub mod Scanning
