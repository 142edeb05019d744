pub mod TestLemmas
pub mod ChainLemmas
pub mod CycleLemmas
pub mod GrowthLemmas
pub mod DependentLemmas
pub mod WalkLemmas
pub mod SearchLemmas
