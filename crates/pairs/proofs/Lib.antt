pub mod Spelling
pub mod Ends
pub mod Lines
pub mod Positions
pub mod Capitals
pub mod Examples
