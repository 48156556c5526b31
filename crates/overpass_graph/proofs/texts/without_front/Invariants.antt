use Rattle.std.proofs.Common.{◌≡◌, drop}
use Rattle.overpass_graph.specs.Restrictions.{without_front}
use Rattle.overpass_graph.proofs.texts.without_front.Given as goal

abbrev pub invariant-bytes : goal.invariant-bytes
invariant-bytes l = without_front (drop l.place l.text) ≡ without_front l.text
