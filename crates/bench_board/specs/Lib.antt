pub mod Meets
