use Rattle.std.proofs.Common.{◌≡◌, ◌+◌, subst, arith}
use Rattle.item_list.specs.Turns.{Says, Settles}
use Rattle.route_certificate.specs.Asks.{leg_in}
use Rattle.route_certificate.specs.Certified.{IsShown, IsWritable}
use Rattle.route_certificate.specs.Provings.{IsProvingFor, counted_of}
use Rattle.route_certificate.specs.declared.finding.TheConstants.{QUOTA}
use Rattle.route_certificate.proofs.finding.certify_leg.Goals as goal

pub turns-smaller : goal.turns-smaller
turns-smaller g c =
    let leg = leg_in (g.G.TerrainOf.terrain c.args.terrain) c.args.ask.now c.args.place in
    let turned = c.in_ok-turn.ensures.turns c.args.bound leg c.args.limit c.turns.invariant in
    let counted = c.in_ok-turn.field-0.counted in
    let is = c.in-More.is in
    let whole = subst (Settles QUOTA counted) is turned.settles in
    let next = subst (Says (λ p. counted_of p ≡ counted_of c.turns.proving + counted) (λ _. Unit {0})) is turned.next in
    omega (arith, whole, next, turned.within)

pub turns-preserved : goal.turns-preserved
turns-preserved g c =
    let terrain = g.G.TerrainOf.terrain c.args.terrain in
    let leg = leg_in terrain c.args.ask.now c.args.place in
    let turned = c.in_ok-turn.ensures.turns c.args.bound leg c.args.limit c.turns.invariant in
    subst (Says (IsProvingFor terrain c.args.bound leg c.args.limit) (IsShown c.args.bound leg c.args.limit))
    c.in-More.is turned.answers

pub returns-in-Done-clause-exact : goal.returns-in-Done-clause-exact
returns-in-Done-clause-exact g c =
    let terrain = g.G.TerrainOf.terrain c.args.terrain in
    let leg = leg_in terrain c.args.ask.now c.args.place in
    let turned = c.in_ok-turn.ensures.turns c.args.bound leg c.args.limit c.turns.invariant in
    subst (Says (IsProvingFor terrain c.args.bound leg c.args.limit) (IsShown c.args.bound leg c.args.limit))
    c.in-Done.is turned.answers

pub returns-in-Done-clause-fits : goal.returns-in-Done-clause-fits
returns-in-Done-clause-fits g c =
    let terrain = g.G.TerrainOf.terrain c.args.terrain in
    let leg = leg_in terrain c.args.ask.now c.args.place in
    let turned = c.in_ok-turn.ensures.turns c.args.bound leg c.args.limit c.turns.invariant in
    subst (Says (λ _. Unit {0}) (IsWritable terrain.map)) c.in-Done.is turned.fits
