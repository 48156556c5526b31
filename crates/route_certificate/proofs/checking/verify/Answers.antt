use Rattle.std.proofs.Common.{◌∙◌, ◌+◌, ◌≤◌, List, Option, Ok, ap, sym, subst, arith, refl, length}
use Rattle.certificate_text.specs.declared.certificate.Proof.{Proof}
use Rattle.route_certificate.specs.Asks.{leg_in}
use Rattle.route_certificate.specs.Legs.{IsFirstFault}
use Rattle.route_certificate.specs.declared.verdict.Why.{Why}
use Rattle.route_certificate.proofs.VerdictLemmas.{checked-all, checked-first, checked-least, checked-more, checked-refused, counted-refused, leg-read}
use Rattle.route_certificate.proofs.checking.verify.Goals as goal

pub legs-init : goal.legs-init
legs-init g c = checked-first (g.G.TerrainOf.terrain c.args.terrain) c.args.ask.now c.args.certificate.now

pub returns-then-not-is_one_fewer-clause-exact : goal.returns-then-not-is_one_fewer-clause-exact
returns-then-not-is_one_fewer-clause-exact g c =
    let counts = ap (λ (legs : List Proof). length legs + 1) c.as_slice-legs.ensures.value in
    counted-refused (g.G.TerrainOf.terrain c.args.terrain) c.args.ask.now c.args.certificate.now c.in_ok-count.count
    (λ one. (
    let yes_is = c.is_one_fewer.ensures.exact.1 (counts ∙ one) in
    let never : ⊥ = cc in
    never
    ))
    (c.in_ok-count.ensures.exact.0 ∙ ap length c.as_slice-legs.ensures.value)

pub returns-in-Some-clause-exact : goal.returns-in-Some-clause-exact
returns-in-Some-clause-exact g c =
    let terrain = g.G.TerrainOf.terrain c.args.terrain in
    let proof = c.index-legs-place.result in
    let counts = ap (λ (legs : List Proof). length legs + 1) c.as_slice-legs.ensures.value in
    checked-refused terrain c.args.ask.now c.args.certificate.now c.legs.place c.legs.cost proof c.in-Some.why
    (sym counts ∙ c.is_one_fewer.ensures.exact.0 c.if-not-is_one_fewer.false) c.legs.invariant
    (leg-read c.args.certificate.now c.as_slice-legs.result.now c.legs.place proof c.as_slice-legs.ensures.value
    c.legs-test.true c.index-legs-place.is)
    (subst (λ (fault : Option Why). IsFirstFault c.args.certificate.now.bound (leg_in terrain c.args.ask.now c.legs.place) proof fault) c.in-Some.is
    c.in_ok-fault.ensures.exact)

pub legs-preserved : goal.legs-preserved
legs-preserved g c =
    let terrain = g.G.TerrainOf.terrain c.args.terrain in
    let proof = c.index-legs-place.result in
    let there = leg-read c.args.certificate.now c.as_slice-legs.result.now c.legs.place proof c.as_slice-legs.ensures.value
    c.legs-test.true c.index-legs-place.is in
    checked-more terrain c.args.ask.now c.args.certificate.now c.legs.place c.legs.cost _ proof c.legs.invariant there
    (subst (λ (fault : Option Why). IsFirstFault c.args.certificate.now.bound (leg_in terrain c.args.ask.now c.legs.place) proof fault) c.in-None.is
    c.in_ok-fault.ensures.exact)
    (c.in_ok-fault.ensures.least (ap Ok c.in-None.is))
    (c.in_ok-fault.ensures.fits (ap Ok c.in-None.is) (c.requires.short c.legs.place proof there)) refl

pub returns-clause-exact : goal.returns-clause-exact
returns-clause-exact g c =
    let counts = ap (λ (legs : List Proof). length legs + 1) c.as_slice-legs.ensures.value in
    let all : length c.args.certificate.now.legs.items ≤ c.legs.place =
    omega (arith, c.legs-test.false, ap length c.as_slice-legs.ensures.value) in
    checked-all (g.G.TerrainOf.terrain c.args.terrain) c.args.ask.now c.args.certificate.now c.legs.place c.legs.cost
    (sym counts ∙ c.is_one_fewer.ensures.exact.0 c.if-not-is_one_fewer.false) all c.legs.invariant

pub returns-clause-least : goal.returns-clause-least
returns-clause-least g c cost same =
    let all : length c.args.certificate.now.legs.items ≤ c.legs.place =
    omega (arith, c.legs-test.false, ap length c.as_slice-legs.ensures.value) in
    checked-least (g.G.TerrainOf.terrain c.args.terrain) c.args.ask.now c.args.certificate.now c.legs.place c.legs.cost all
    c.legs.invariant
