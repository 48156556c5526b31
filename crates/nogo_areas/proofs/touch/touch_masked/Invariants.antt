use Rattle.std.proofs.Common.{◌≡◌, ℕ, ◌<◌, false}
use Rattle.std.specs.Prelude.{Some}
use Rattle.std.specs.List.{slice_get}
use Rattle.geo_int.specs.Spot.{place_of}
use Rattle.nogo_areas.specs.Cuts.{touches_way}
use Rattle.nogo_areas.specs.declared.circle.Circle.{Circle}
use Rattle.nogo_areas.proofs.touch.touch_masked.Given as goal

abbrev pub invariant-circles : goal.invariant-circles
invariant-circles l = record {
  none : (j : ℕ) (circle : Circle) → j < l.k → slice_get l.circles j ≡ Some circle →
      touches_way (place_of l.a) (place_of l.b) circle ≡ false;
}
