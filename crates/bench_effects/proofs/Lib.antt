pub mod Effecting
