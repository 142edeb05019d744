pub mod Chains
pub mod Summary
pub mod SummaryText
pub mod Facts
pub mod Changes
pub mod ChangeText
