pub mod Cancels
pub mod Zeros
pub mod Claims
pub mod Examples
