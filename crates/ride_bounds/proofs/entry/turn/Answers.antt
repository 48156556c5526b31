use Rattle.std.proofs.Common.{◌≡◌, Some, SFits, w64, ap, ◌∙◌}
use Rattle.std.specs.Int.{w128}
use Rattle.std.proofs.lemmas.Int.{to_z-of_z}
use Rattle.cost_model.specs.Parts.{turn_of, turn_price}
use Rattle.cost_model.proofs.CallerLemmas.{turn-small}
use Rattle.ride_bounds.proofs.EntryLemmas.{price-fits}
use Rattle.ride_bounds.proofs.entry.turn.Goals as goal

-- what is priced is the turn part
is : (c : goal.After-priced) → c.priced.result ≡ turn_of (Some c.args.last.now) c.args.facts.now
is c =
    let f = price-fits c.args.facts.now.turncost c.turn_cos.result c.requires.facts.turncost c.turn_cos.ensures.low c.turn_cos.ensures.high in
    let cosine : SFits w64 c.turn_cos.result = record { sfits = c.turn_cos.type_inv } in
    let e : c.priced.result ≡ turn_price c.args.facts.now.turncost c.turn_cos.result =
    simp (to_z-of_z, cosine, f.narrow) at c.priced.ensures.exact in
    e ∙ ap (turn_price c.args.facts.now.turncost) c.turn_cos.ensures.exact

pub returns-clause-low : goal.returns-clause-low
returns-clause-low c =
    let whole : SFits w128 c.priced.result = record { sfits = c.priced.type_inv } in
    simp (to_z-of_z, whole) (rw (is c) (turn-small (Some c.args.last.now) c.args.facts.now c.requires.facts).low)

pub returns-clause-high : goal.returns-clause-high
returns-clause-high c =
    let whole : SFits w128 c.priced.result = record { sfits = c.priced.type_inv } in
    simp (to_z-of_z, whole) (rw (is c) (turn-small (Some c.args.last.now) c.args.facts.now c.requires.facts).high)
