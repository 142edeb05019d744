pub mod Arguments
pub mod Session
pub mod ArgumentNames
pub mod ArgumentFaults
pub mod Nearest
pub mod ArgumentExplanation
pub mod Devices
