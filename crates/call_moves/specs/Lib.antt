pub mod MoveAt
pub mod Examples
