pub mod DriveLemmas
pub mod FeedLemmas
pub mod ReadSetupLemmas
pub mod LiveLemmas
pub mod NextLineLemmas
pub mod ContinuationLemmas
pub mod JsonRunLemmas
pub mod CutLaws
