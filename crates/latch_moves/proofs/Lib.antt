pub mod Words
pub mod Followed
pub mod Examples
