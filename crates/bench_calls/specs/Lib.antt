pub mod Beginnings
pub mod Board
pub mod Ends
