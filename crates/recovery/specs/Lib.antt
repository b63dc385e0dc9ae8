pub mod Recovery
pub mod Witness
