pub mod ListLemmas
pub mod RepeatLemmas
pub mod DefaultItems
pub mod RefusalLemmas
pub mod NameLemmas
