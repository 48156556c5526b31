pub mod MissLemmas
pub mod SideLemmas
pub mod FenceLemmas
pub mod CutLemmas
pub mod CuttingLemmas
pub mod CallerLemmas
