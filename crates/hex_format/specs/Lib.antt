pub mod Texts
pub mod Written
pub mod HexFormat
pub mod Examples
pub mod Turns
