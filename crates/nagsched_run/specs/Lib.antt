pub mod Cut
pub mod Drive
pub mod JsonRun
pub mod Live
