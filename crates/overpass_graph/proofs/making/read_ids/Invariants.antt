use Rattle.std.proofs.Common.{ℕ, ◌<◌}
use Rattle.std.specs.Prelude.{FitsSigned}
use mir.Syntax.{w64}
use Rattle.overpass_graph.specs.Maps.{way_at}
use Rattle.overpass_graph.proofs.making.read_ids.Given as goal

abbrev pub invariant-ways : goal.invariant-ways
invariant-ways l = (k : ℕ) → k < l.way → FitsSigned w64 (way_at l.tables.draft.ways k).id
