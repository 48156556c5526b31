pub mod CallerLemmas
pub mod DefinedLemmas
pub mod FaultLemmas
pub mod NameLemmas
pub mod OverrideLemmas
