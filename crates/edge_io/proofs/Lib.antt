pub mod ActLemmas
pub mod CallerLemmas
pub mod IdleLemmas
pub mod LeavingLemmas
pub mod PeersLemmas
pub mod SinkLemmas
pub mod WholeLemmas
