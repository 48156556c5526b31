pub mod CallerLemmas
pub mod IndexLemmas
pub mod DistanceLemmas
pub mod EndLemmas
pub mod RankLemmas
pub mod BestLemmas
