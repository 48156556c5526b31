use Rattle.std.proofs.Common.{◌≡◌, ℕ, ◌<◌, length, get_or}
use Rattle.std.specs.Prelude.{Some}
use Rattle.std.specs.List.{slice_get}
use Rattle.nogo_areas.specs.Sides.{IsBeyond}
use Rattle.nogo_areas.specs.declared.circle.Circle.{Circle}
use Rattle.nogo_areas.proofs.masks.bounds.Given as goal

abbrev pub invariant-circles : goal.invariant-circles
invariant-circles l = record {
  same : length l.bounds.items ≡ l.circle-index;
  beyond : (k : ℕ) (circle : Circle) → k < l.circle-index → slice_get l.circles k ≡ Some circle → (distance : ℕ) →
      distance < get_or l.bounds.items k 0 → IsBeyond l.side circle distance;
}
