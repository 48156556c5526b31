use Rattle.std.proofs.Common.{◌≡◌, ◌+◌, ◌+ℤ◌, Some, SFits, unsigned_abs, refl, arith}
use Rattle.std.specs.Int.{w128}
use Rattle.std.proofs.lemmas.Int.{ints, fits_signed_from_abs, to_z-of_z}
use Rattle.cost_model.proofs.CallerLemmas.{initial-small, turn-small}
use Rattle.ride_bounds.specs.Entries.{least_entry}
use Rattle.ride_bounds.proofs.entry.least_entry.Goals as goal

pub returns : goal.returns
unfolding least_entry
returns c =
    let t : SFits w128 c.turn.result = record { sfits = c.turn.type_inv } in
    let i : SFits w128 c.initial.result = record { sfits = c.initial.type_inv } in
    let ts = turn-small (Some c.args.last.now) c.args.facts.now c.requires.facts in
    let ns = initial-small (Some c.args.last.now) c.args.facts.now c.requires.facts in
    let sum : SFits w128 (c.turn.result +ℤ c.initial.result) =
    rw (c.turn.ensures.exact, c.initial.ensures.exact) (fits_signed_from_abs w128 _ (omega (arith, ints, ts.low, ts.high, ns.low, ns.high))) in
    let e : c.least_price.result + unsigned_abs (c.turn.result +ℤ c.initial.result) ≡ least_entry c.args.last.now c.args.facts.now =
    rw (c.least_price.ensures.exact, c.turn.ensures.exact, c.initial.ensures.exact) refl in
    record { exact = simp (to_z-of_z, t, i, sum) e }
