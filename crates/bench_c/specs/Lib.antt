pub mod BoardBytes
pub mod BoardCalls
pub mod BoardClaims
pub mod BoardAsked
