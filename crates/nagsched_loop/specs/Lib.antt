pub mod Effects
pub mod Faults
pub mod Loop
pub mod Months
pub mod Work
