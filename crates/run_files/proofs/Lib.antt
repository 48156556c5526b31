mod CertificateLemmas
pub mod EachLemmas
pub mod MapLemmas
mod MapReadingLemmas
pub mod NoteLemmas
pub mod ProfileLemmas
pub mod StageLemmas
pub mod TileLemmas
pub mod WorldLemmas
