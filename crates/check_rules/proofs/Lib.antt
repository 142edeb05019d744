pub mod BlockedLaws
pub mod InheritLemmas
pub mod MarkLemmas
pub mod SearchLemmas
