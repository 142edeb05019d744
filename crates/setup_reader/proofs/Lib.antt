pub mod TreeLemmas
pub mod KeyLemmas
pub mod ShapeLemmas
pub mod ReadLemmas
pub mod FeedLemmas
pub mod VerificationLemmas
pub mod FaultlessLemmas
