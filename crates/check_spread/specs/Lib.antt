pub mod Spread
pub mod Limits
pub mod Visits
