pub mod CallerLemmas
pub mod ListLemmas
pub mod TestLemmas
pub mod SaysLemmas
pub mod PathLemmas
pub mod PageLemmas
