pub mod EntryLemmas
pub mod ArcLemmas
pub mod TurnLemmas
pub mod PriceLemmas
pub mod TargetLemmas
pub mod BoundLemmas
pub mod CallerLemmas
