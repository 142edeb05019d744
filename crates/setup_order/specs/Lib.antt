pub mod Cycles
pub mod Orders
pub mod Growth
pub mod Results
pub mod Search
