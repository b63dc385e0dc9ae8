pub mod Wire
pub mod Examples
