use Rattle.std.proofs.Common.{subst, sym}
use Rattle.certificate_text.specs.declared.certificate.LowerBound.TheVariants.{Zero}
use Rattle.route_certificate.specs.Asks.{leg_in}
use Rattle.route_certificate.specs.Provings.{IsSettlingFor}
use Rattle.route_certificate.proofs.ProvingLemmas.{settling-new}
use Rattle.route_certificate.proofs.proving.first_stage.Goals as goal

pub returns-in_ok-space-in-Zero-clause-on : goal.returns-in_ok-space-in-Zero-clause-on
returns-in_ok-space-in-Zero-clause-on g c =
    let terrain = g.G.TerrainOf.terrain c.args.terrain in
    let leg = leg_in terrain c.args.ask.now c.args.place in
    let space = c.in_ok-space-in-Zero.ensures in
    subst (λ b. IsSettlingFor terrain b leg c.args.limit c.rest.result c.new.result) (sym c.in-Zero.is)
    (settling-new terrain Zero leg c.args.limit c.in_ok-space-in-Zero.space.kept c.rest.result c.new.result c.rest.ensures.kept
    (record { wakes = space.wakes; is = space.leg; unused = space.unused; rests = space.rests }) c.if-ask-place.false c.new.ensures.of
    c.new.ensures.limit)
