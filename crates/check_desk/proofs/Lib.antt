pub mod PassLemmas
pub mod PublicLaws
pub mod ScheduleLemmas
pub mod BoardLemmas
mod RecordLemmas
mod ReportLemmas
mod AnsweredLemmas
