mod EarliestLemmas
mod FaultLemmas
mod MonthLemmas
mod RoundLemmas
pub mod RunLemmas
