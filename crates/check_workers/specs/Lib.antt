pub mod Tallies
pub mod Shifts
pub mod Crews
pub mod Progress
