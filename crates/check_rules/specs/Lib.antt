pub mod Reachability
pub mod Dependencies
pub mod Marks
