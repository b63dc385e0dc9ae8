pub mod Joined
pub mod Lengths
pub mod Steps
pub mod Reach
pub mod Examples
