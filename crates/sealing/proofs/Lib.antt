pub mod Sealed
pub mod Witness
