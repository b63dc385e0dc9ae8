pub mod Walking
pub mod Killed
pub mod Closed
pub mod Recovery
pub mod Retrying
pub mod Witness
