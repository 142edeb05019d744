pub mod LeastLaws
pub mod TimesLaws
pub mod EntryLaws
pub mod PositionLaws
pub mod HeapLaws
pub mod QueueLaws
