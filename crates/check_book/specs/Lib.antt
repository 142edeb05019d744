pub mod BookState
pub mod Logs
pub mod Books
pub mod Resumed
pub mod Board
