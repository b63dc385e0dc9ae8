pub mod Image
pub mod Refusals
pub mod Checks
pub mod Handed
