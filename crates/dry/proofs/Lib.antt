pub mod Meets
pub mod Turning
pub mod Playing
pub mod Taking
pub mod Reporting
pub mod Lining
