pub mod Handled
pub mod Ended
pub mod Moves
