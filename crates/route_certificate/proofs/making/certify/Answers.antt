use Rattle.std.proofs.Common.{◌≡◌, refl, subst, arith}
use Rattle.certificate_text.specs.declared.certificate.Certificate.{Certificate}
use Rattle.route_certificate.specs.Asks.{leg_in}
use Rattle.route_certificate.specs.Certified.{IsShown, IsWritable, no_walk, spent}
use Rattle.route_certificate.proofs.CertifiedLemmas.{shown-all, shown-alone, shown-before, shown-first, shown-more}
use Rattle.route_certificate.proofs.making.certify.Goals as goal

pub legs-init : goal.legs-init
legs-init g c =
    shown-first (g.G.TerrainOf.terrain c.args.terrain) c.args.ask.now c.args.bound _ c.new-legs.ensures.items

pub returns-in-NoWay-clause-exact : goal.returns-in-NoWay-clause-exact
returns-in-NoWay-clause-exact g c =
    let terrain = g.G.TerrainOf.terrain c.args.terrain in
    no_walk
    (shown-before terrain c.args.ask.now c.args.bound c.legs.place c.legs.legs.items c.legs.invariant
    (omega (arith, c.legs-test.true, c.requires.some)))
    (subst (IsShown c.args.bound (leg_in terrain c.args.ask.now c.legs.place) c.args.limit) c.in-NoWay.is c.in_ok-found.ensures.exact)

pub returns-in-Budget-clause-exact : goal.returns-in-Budget-clause-exact
returns-in-Budget-clause-exact g c =
    let terrain = g.G.TerrainOf.terrain c.args.terrain in
    spent
    (shown-before terrain c.args.ask.now c.args.bound c.legs.place c.legs.legs.items c.legs.invariant
    (omega (arith, c.legs-test.true, c.requires.some)))
    (subst (IsShown c.args.bound (leg_in terrain c.args.ask.now c.legs.place) c.args.limit) c.in-Budget.is c.in_ok-found.ensures.exact)

pub legs-preserved : goal.legs-preserved
legs-preserved g c =
    let terrain = g.G.TerrainOf.terrain c.args.terrain in
    shown-more terrain c.args.ask.now c.args.bound c.legs.place c.legs.legs.items _ c.in-Found.proof c.legs.invariant
    (subst (IsShown c.args.bound (leg_in terrain c.args.ask.now c.legs.place) c.args.limit) c.in-Found.is c.in_ok-found.ensures.exact)
    (subst (IsWritable terrain.map) c.in-Found.is c.in_ok-found.ensures.fits)
    c.in_ok-push-in-Found.ensures.items

pub returns-clause-exact : goal.returns-clause-exact
returns-clause-exact g c =
    shown-all (g.G.TerrainOf.terrain c.args.terrain) c.args.ask.now c.args.bound c.legs.place c.args.limit
    (record { bound = c.args.bound; legs = c.legs.legs }) c.legs.invariant refl
    (omega (arith, c.legs-test.false, c.legs.auto.place-end, c.requires.some))

pub returns-clause-fits : goal.returns-clause-fits
returns-clause-fits g c = c.legs.invariant.written

pub returns-clause-agrees : goal.returns-clause-agrees
returns-clause-agrees g c certificate verdict same is =
    let made : Certificate = record { bound = c.args.bound; legs = c.legs.legs } in
    let one : made ≡ certificate = cc in
    shown-alone (g.G.TerrainOf.terrain c.args.terrain) c.args.ask.now c.args.bound c.legs.place made certificate verdict c.legs.invariant refl
    (omega (arith, c.legs-test.false, c.legs.auto.place-end, c.requires.some)) one is
