pub mod Passes
pub mod Desks
pub mod Belonging
pub mod Schedules
pub mod Reports
pub mod Answered
