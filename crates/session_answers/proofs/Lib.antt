mod GuideLemmas
mod KeptLemmas
mod KeyLemmas
mod MakingLemmas
mod OnceLemmas
mod QueryLemmas
mod ReadyLemmas
mod ReceivedLemmas
pub mod CallerLemmas
pub mod JobLemmas
pub mod StoredLemmas
mod TurnLemmas
pub mod VerdictLemmas
