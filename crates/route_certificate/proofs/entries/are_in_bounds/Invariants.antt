use Rattle.std.proofs.Common.{◌≡◌, ℕ, ◌<◌, Some}
use Rattle.std.specs.List.{slice_get}
use Rattle.certificate_text.specs.declared.certificate.Entry.{Entry}
use Rattle.bike_space.specs.Kept.{task_of}
use Rattle.route_certificate.specs.Legs.{IsInBounds}
use Rattle.route_certificate.proofs.entries.are_in_bounds.Given as goal

abbrev pub invariant-entries : goal.invariant-entries
invariant-entries g l = (place : ℕ) (entry : Entry) → place < l.place → slice_get l.entries place ≡ Some entry →
    IsInBounds (task_of (g.G.TerrainOf.terrain l.space.terrain) l.space.kept).leg entry
