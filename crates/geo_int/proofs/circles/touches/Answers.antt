use Rattle.std.proofs.Common.{sym, ◌∙◌, arith}
use Rattle.std.proofs.lemmas.Nat.{mul-le}
use Rattle.geo_int.specs.Spot.{place_of}
use Rattle.geo_int.proofs.CircleLemmas.{circle_touches-far, circle_touches-near, circle_touches-swap, circle_touches-grows, grows_true, near-within}
use Rattle.geo_int.proofs.circles.touches.Goals as goal

pub returns-then-not-near-clause-exact : goal.returns-then-not-near-clause-exact
returns-then-not-near-clause-exact c =
    let far = circle_touches-far (place_of c.args.a) (place_of c.args.b) (place_of c.args.centre) c.seen_from-first.result
    c.seen_from-second.result c.args.radius c.seen_from-first.ensures.exact c.seen_from-second.ensures.exact
    (sym c.near.ensures.exact ∙ c.if-not-near.true) in
    sym far

pub returns-then-not-near-clause-same : goal.returns-then-not-near-clause-same
returns-then-not-near-clause-same c =
    let far = circle_touches-far (place_of c.args.a) (place_of c.args.b) (place_of c.args.centre) c.seen_from-first.result
    c.seen_from-second.result c.args.radius c.seen_from-first.ensures.exact c.seen_from-second.ensures.exact
    (sym c.near.ensures.exact ∙ c.if-not-near.true) in
    circle_touches-swap (place_of c.args.a) (place_of c.args.b) (place_of c.args.centre) c.args.radius ∙ far

pub returns-clause-exact : goal.returns-clause-exact
returns-clause-exact c =
    let near = circle_touches-near (place_of c.args.a) (place_of c.args.b) (place_of c.args.centre) c.seen_from-first.result
    c.seen_from-second.result c.args.radius c.seen_from-first.ensures.exact c.seen_from-second.ensures.exact
    (sym c.near.ensures.exact ∙ c.if-not-near.false) in
    let is = c.touches_near.ensures.exact ∙ sym near in
    is

pub returns-clause-same : goal.returns-clause-same
returns-clause-same c =
    let near = circle_touches-near (place_of c.args.a) (place_of c.args.b) (place_of c.args.centre) c.seen_from-first.result
    c.seen_from-second.result c.args.radius c.seen_from-first.ensures.exact c.seen_from-second.ensures.exact
    (sym c.near.ensures.exact ∙ c.if-not-near.false) in
    let is = c.touches_near.ensures.exact ∙ sym near in
    circle_touches-swap (place_of c.args.a) (place_of c.args.b) (place_of c.args.centre) c.args.radius ∙ sym is

pub returns-clause-grows : goal.returns-clause-grows
returns-clause-grows c =
    let near = circle_touches-near (place_of c.args.a) (place_of c.args.b) (place_of c.args.centre) c.seen_from-first.result
    c.seen_from-second.result c.args.radius c.seen_from-first.ensures.exact c.seen_from-second.ensures.exact
    (sym c.near.ensures.exact ∙ c.if-not-near.false) in
    let is = c.touches_near.ensures.exact ∙ sym near in
    λ larger more. grows_true _ _ (λ e. circle_touches-grows _ _ _ c.args.radius larger more (sym is ∙ e))

pub returns-then-not-near-clause-grows : goal.returns-then-not-near-clause-grows
returns-then-not-near-clause-grows c = λ larger more no. absurd (cc)

pub overflow_mul-radius : goal.overflow_mul-radius
overflow_mul-radius c = record { fits = omega (arith, mul-le _ _ _ _ c.requires.fits c.requires.fits) }

pub touches_near-requires-clause-a : goal.touches_near-requires-clause-a
touches_near-requires-clause-a c = (near-within c.seen_from-first.result c.seen_from-second.result (sym c.near.ensures.exact ∙ c.if-not-near.false)).0

pub touches_near-requires-clause-b : goal.touches_near-requires-clause-b
touches_near-requires-clause-b c = (near-within c.seen_from-first.result c.seen_from-second.result (sym c.near.ensures.exact ∙ c.if-not-near.false)).1

pub touches_near-requires-clause-square : goal.touches_near-requires-clause-square
touches_near-requires-clause-square c = mul-le _ _ _ _ c.requires.fits c.requires.fits
