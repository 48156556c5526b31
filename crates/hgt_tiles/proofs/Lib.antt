pub mod CallerLemmas
pub mod FileLemmas
pub mod MixLemmas
pub mod HeightLemmas
pub mod PlaceLemmas
pub mod TilesLemmas
