pub mod CallerLemmas
pub mod StepLemmas
pub mod ProductLemmas
pub mod CoverLemmas
pub mod TestLemmas
pub mod SlotLemmas
pub mod NewerLemmas
mod WordLemmas
pub mod WholeLemmas
pub mod AllLemmas
pub mod SumsLemmas
