pub mod Finding
pub mod Frames
pub mod Bodies
