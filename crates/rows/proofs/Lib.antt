pub mod Examples
pub mod Zeros
pub mod Claims
pub mod Cancels
