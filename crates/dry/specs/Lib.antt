pub mod Playing
pub mod Runs
