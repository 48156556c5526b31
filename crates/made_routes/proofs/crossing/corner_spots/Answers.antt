use Rattle.std.proofs.Common.{ap, ◌-◌, ℕ}
use Rattle.made_routes.proofs.HillLemmas.{corners-are}
use Rattle.made_routes.proofs.crossing.corner_spots.Goals as goal

pub returns : goal.returns
returns c =
    record {
      exact = corners-are c.args.grid.now _ c.spot-first_spot.result c.spot-last_spot.result _ _ _
          (ap (λ (n : ℕ). n - 1) c.cell_count-last.ensures.exact)
          c.spot-first_spot.ensures.exact c.spot-last_spot.ensures.exact c.new-spots.ensures.value c.in_ok-push.ensures.value
          c.in_ok-push-2.ensures.value;
    }
