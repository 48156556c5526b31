-- What crates above may cite of corners and of heights.
pub use Rattle.hgt_tiles.proofs.PlaceLemmas.{corner-same, beyond-lon, beyond-lat}
pub use Rattle.hgt_tiles.proofs.TilesLemmas.{height_of-some, height_of-none, height_of-lawful}
