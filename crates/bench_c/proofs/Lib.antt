pub mod Boards
pub mod BoardBacks
