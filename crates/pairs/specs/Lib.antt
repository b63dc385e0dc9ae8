pub mod Digits
pub mod Lines
pub mod Spelling
pub mod Examples
