-- No tag so far has the name.
use Rattle.std.proofs.Common.{◌≡◌, drop}
use Rattle.map_elements.specs.Names.{has_tag}
use Rattle.map_elements.proofs.fields.tags.has_tag.Given as goal

abbrev pub invariant-tags : goal.invariant-tags
invariant-tags l = has_tag l.name (drop l.tag-index l.tags) ≡ has_tag l.name l.tags
