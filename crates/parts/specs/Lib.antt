pub mod Parts
pub mod Sizes
pub mod LockExamples
pub mod LookupExamples
pub mod Levels
