-- What crates above may cite of walks, of the links that leave a node, of the way back of a link, and of names.
pub use Rattle.overpass_graph.proofs.PairLemmas.{twin-even, twin-odd, twin-twin, places-same}
pub use Rattle.overpass_graph.proofs.WalkLemmas.{walk-empty, walk-pushed, out-sound, out-whole}
pub use Rattle.overpass_graph.proofs.PlaceLemmas.{count-most}
pub use Rattle.overpass_graph.proofs.NameLemmas.{name-own}
