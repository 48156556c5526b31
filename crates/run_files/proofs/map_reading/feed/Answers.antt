-- A piece of a text.
use Rattle.std.proofs.Common.{◌++◌}
use Rattle.overpass_graph.specs.Builder.{IsFaultOfBeginning}
use Rattle.run_files.proofs.MapReadingLemmas.{told-of-piece}
use Rattle.run_files.proofs.map_reading.feed.Goals as goal

-- the piece is refused
pub returns-in-Err-clause-exact : goal.returns-in-Err-clause-exact
returns-in-Err-clause-exact c bytes stands =
    told-of-piece (Unit {0}) (IsFaultOfBeginning (bytes ++ c.args.piece.now)) _ _ c.told.ensures.exact (c.in-Err.ensures.exact bytes stands)
