use Rattle.std.proofs.Common.{ℕ, Bool, List, ◌∙◌, ap, arith}
use Rattle.std.proofs.lemmas.Result.{IfOk-weaker}
use Rattle.bike_space.specs.Marks.{is_marked}
use Rattle.bike_space.specs.declared.ask.LegAsk.{LegAsk}
use Rattle.route_certificate.proofs.space.rests_opening.Goals as goal

pub new-requires-clause-start : goal.new-requires-clause-start
new-requires-clause-start g c =
    let start = ap (λ (a : LegAsk). a.start) c.leg_ask.ensures.value in
    let inside = c.requires.asked.nodes c.args.place (omega (arith, c.requires.within)) in
    omega (arith, start, inside)

pub new-requires-clause-target : goal.new-requires-clause-target
new-requires-clause-target g c =
    let target = ap (λ (a : LegAsk). a.target) c.leg_ask.ensures.value in
    let inside = c.requires.asked.nodes _ c.requires.within in
    omega (arith, target, inside)

pub returns-clause-unused : goal.returns-clause-unused
returns-clause-unused g c =
    IfOk-weaker c.new.result _ _
    (λ opening used link.
    ap (λ (u : ℕ → Bool). u link) used ∙ ap (λ (m : List Bool). is_marked m link) c.leg_ask.ensures.unused)
    c.new.ensures.used
