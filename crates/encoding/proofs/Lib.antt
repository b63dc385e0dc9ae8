pub mod Numbered
pub mod Putting
