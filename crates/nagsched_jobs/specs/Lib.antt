pub mod Check
pub mod CheckResumed
pub mod CheckEnded
pub mod Drill
pub mod Reading
pub mod ScriptedCodes
pub mod SetupReading
