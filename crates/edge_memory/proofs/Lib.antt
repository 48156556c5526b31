pub mod FolderLemmas
pub mod HeldLemmas
pub mod PlaceLemmas
pub mod SceneLemmas
pub mod SetLemmas
pub mod TapeLemmas
pub mod ToldLemmas
