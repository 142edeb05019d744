pub mod CallerLemmas
pub mod TallyLemmas
pub mod RoundLemmas
pub mod SumLemmas
pub mod ShiftLemmas
pub mod GatherLemmas
pub mod CrewLemmas
