pub mod HistoryLaws
pub mod BoardLaws
pub mod BookLemmas
pub mod GenerationLaws
pub mod PublicLaws
pub mod ReplyLaws
