pub mod DrillDriveLemmas
pub mod DrillLaws
pub mod ReadingLemmas
pub mod CheckLemmas
pub mod CheckResumedLemmas
