pub mod ArgumentLemmas
pub mod NearestLemmas
pub mod WordLemmas
pub mod QuotedLemmas
pub mod NoteLemmas
