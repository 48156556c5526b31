use Rattle.std.proofs.Common.{◌≡◌, ℕ, Bool, List, false, ◌∙◌, ap, subst}
use Rattle.std.proofs.lemmas.Result.{IfOk-weaker}
use Rattle.bike_space.specs.Kept.{Wakes, task_of}
use Rattle.bike_space.specs.Marks.{is_marked}
use Rattle.cost_model.specs.Rides.{Terrain}
use Rattle.route_certificate.proofs.KnownLemmas.{known-behind}
use Rattle.route_certificate.proofs.SpaceLemmas.{three-ok}
use Rattle.route_certificate.proofs.space.with_rests_below.Goals as goal

pub returns-then-is_far-clause-unused : goal.returns-then-is_far-clause-unused
returns-then-is_far-clause-unused g c = λ link.
    ap (λ (u : ℕ → Bool). u link) c.in_ok-space.ensures.used
    ∙ ap (λ (m : List Bool). is_marked m link) c.leg_ask.ensures.unused

pub returns-then-is_far-clause-rests : goal.returns-then-is_far-clause-rests
returns-then-is_far-clause-rests g c =
    let space = c.in_ok-space.space in
    let task = task_of (g.G.TerrainOf.terrain c.args.terrain) space.kept in
    let none : (link : ℕ) → task.used link ≡ false = λ link.
    ap (λ (u : ℕ → Bool). u link) c.in_ok-space.ensures.used
    ∙ ap (λ (m : List Bool). is_marked m link) c.leg_ask.ensures.unused in
    known-behind task c.in_ok-space.ensures.wakes.known none c.args.cost
    (λ most at. c.is_far.ensures.exact.0 c.if-is_far.true most (c.radius.ensures.value ∙ at))

pub returns-else-is_far-clause-unused : goal.returns-else-is_far-clause-unused
returns-else-is_far-clause-unused g c =
    IfOk-weaker c.widened.result _ _
    (λ space used link.
    ap (λ (u : ℕ → Bool). u link) used ∙ ap (λ (u : ℕ → Bool). u link) c.in_ok-space.ensures.used
    ∙ ap (λ (m : List Bool). is_marked m link) c.leg_ask.ensures.unused)
    c.widened.ensures.used

pub returns-else-is_far-clause-rests : goal.returns-else-is_far-clause-rests
returns-else-is_far-clause-rests g c =
    let terrain = g.G.TerrainOf.terrain c.args.terrain in
    let same = ap g.G.TerrainOf.terrain c.in_ok-space.ensures.terrain in
    three-ok
    (λ space wakes used whole.
    known-behind (task_of terrain space.kept) (subst (λ (t : Terrain). Wakes t space.kept) same wakes).known
    (λ link.
    ap (λ (u : ℕ → Bool). u link) used ∙ ap (λ (u : ℕ → Bool). u link) c.in_ok-space.ensures.used
    ∙ ap (λ (m : List Bool). is_marked m link) c.leg_ask.ensures.unused)
    c.args.cost (λ most at. absurd (cc)))
    c.widened.result c.widened.ensures.wakes c.widened.ensures.used c.widened.ensures.whole
