-- No tag so far has the name.
use Rattle.std.proofs.Common.{◌≡◌, drop}
use Rattle.overpass_graph.specs.RouteTags.{value_of}
use Rattle.overpass_graph.proofs.tag_values.value_of.Given as goal

abbrev pub invariant-tags : goal.invariant-tags
invariant-tags l = value_of l.name (drop l.tag-index l.tags) ≡ value_of l.name l.tags
