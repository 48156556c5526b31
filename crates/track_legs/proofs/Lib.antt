pub mod CallerLemmas
pub mod WalkLemmas
pub mod CostLemmas
pub mod RowLemmas
pub mod TrackLemmas
