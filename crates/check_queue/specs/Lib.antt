pub mod Order
pub mod Times
pub mod Entries
pub mod Positions
pub mod Heap
pub mod WellFormed
