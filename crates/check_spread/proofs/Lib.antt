pub mod TimesLemmas
pub mod TotalLemmas
pub mod VisitLemmas
pub mod BoundLemmas
