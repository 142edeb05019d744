pub mod Cases
pub mod BoardLemmas
pub mod ChangeLemmas
pub mod FlappingLemmas
pub mod VerdictLaws
